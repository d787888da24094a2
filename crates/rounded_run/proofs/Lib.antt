-- A whole run with its rounding, one choice at a time.
pub mod Making
