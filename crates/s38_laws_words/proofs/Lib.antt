mod NamedLaws
