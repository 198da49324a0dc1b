pub mod Forms
pub mod LineCut
pub mod ScriptLine
pub mod ScriptText
pub mod ScriptWords
