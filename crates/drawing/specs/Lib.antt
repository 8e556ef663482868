pub mod Does
pub mod Due
