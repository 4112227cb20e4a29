mod OfProgram
mod NamedValues
pub mod FieldPlaces
pub mod NamedPlaces
pub mod Powers
pub mod RowsLeft
pub mod ScriptSteps
pub mod SoundWords
