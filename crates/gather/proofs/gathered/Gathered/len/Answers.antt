use Rattle.gather.proofs.gathered.Gathered.len.Goals as goal

pub returns : goal.returns
returns c = record { counted = λ rows held. held.gathered.buffers.counted }
