pub mod Programs
pub mod ItemExamples
pub mod InferredExamples
