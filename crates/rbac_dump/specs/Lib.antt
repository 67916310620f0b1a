pub mod Dump
pub mod DumpText
