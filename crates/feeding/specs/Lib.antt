-- What is printed of the choices.
pub mod Printed
