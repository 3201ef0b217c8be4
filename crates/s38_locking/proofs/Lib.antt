mod LockLaws
