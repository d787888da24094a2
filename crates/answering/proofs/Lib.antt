-- What the commands make of the console, case by case.
pub mod Laws
