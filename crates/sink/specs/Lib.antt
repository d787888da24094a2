-- Where output goes.
pub mod Sinks
