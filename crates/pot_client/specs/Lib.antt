pub mod Parts
pub mod ReplyKinds
pub mod ReplyTexts
pub mod ReplyWords
pub mod ScriptWords
