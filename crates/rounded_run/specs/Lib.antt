-- What a whole run with its rounding returns and leaves.
pub mod RoundedWholeRuns
