pub mod Lines
pub mod Texts
pub mod ScriptedCrates
pub mod Scripted
