mod CreationLaws
mod ContextLaws
mod GrantLaws
mod ListingLaws
