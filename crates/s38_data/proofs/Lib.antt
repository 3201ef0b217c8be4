mod QueueLaws
mod IndexLaws
