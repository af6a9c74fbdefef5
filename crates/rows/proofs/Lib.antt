pub mod Runs
pub mod Transcripts
