-- What a handler is called with, and the vote on the gathered lists.
pub mod Held
pub mod Cast
