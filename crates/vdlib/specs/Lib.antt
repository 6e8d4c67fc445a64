-- What the library answers.
pub mod Tested
