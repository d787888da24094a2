-- The program's lines, as texts.
pub mod Texts
