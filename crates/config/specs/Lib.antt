-- What the register words mean (document 01, "Register words" and "Numbers given back").
pub mod Setting
pub mod Answer
pub mod Accepted
