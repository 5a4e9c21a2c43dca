pub mod Numbers
pub mod Handing
pub mod PoolNumbers
pub mod PoolHanding
pub mod AnswerNumbers
pub mod AnswerHanding
