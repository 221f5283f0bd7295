pub mod Sets
pub mod Challenge
pub mod SampleRun
pub mod PreparedRand
