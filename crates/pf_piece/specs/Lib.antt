pub mod Piece
pub mod Laws
pub mod Held
pub mod Cores
