pub mod Lexeme
pub mod Pieces
pub mod Reserved
pub mod Tokens
