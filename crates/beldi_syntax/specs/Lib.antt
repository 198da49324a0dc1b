pub mod Deployments
pub mod Expressions
pub mod Grammar
pub mod Lexer
pub mod Operators
pub mod Phrase
pub mod SourceText
pub mod Statements
