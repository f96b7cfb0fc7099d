pub mod Refusing
pub mod Taking
pub mod Noting
pub mod Answering
pub mod Calling
pub mod Going
