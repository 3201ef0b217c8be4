mod OperandLaws
mod RecentLaws
