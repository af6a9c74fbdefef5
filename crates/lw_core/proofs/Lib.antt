mod AnswerLaws
mod FrameLaws
pub mod OwnLaws
mod QuietLaws
mod RequestLaws
pub mod ShortFrames
mod TieLaws
mod WaitLaws
