pub mod CommitmentLaws
