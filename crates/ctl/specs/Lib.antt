pub mod Answers
pub mod Outcomes
pub mod Puts
pub mod Options
pub mod AnswerExamples
pub mod PutExamples
