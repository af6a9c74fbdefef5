pub mod LinesLaws
pub mod LegalLaws
pub mod TranscriptLaws
