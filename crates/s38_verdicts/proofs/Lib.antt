mod AskedLaws
mod ResolvedLaws
mod SoleLaws
