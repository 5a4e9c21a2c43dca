pub mod Numbers
pub mod PoolNumbers
pub mod AnswerNumbers
