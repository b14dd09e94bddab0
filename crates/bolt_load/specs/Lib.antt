pub mod ByteMembers
pub mod LoadFaultWords
pub mod LineFaults
pub mod PlainTexts
pub mod Private
pub mod ShownMembers
