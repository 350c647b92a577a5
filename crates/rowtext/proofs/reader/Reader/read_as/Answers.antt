use Rattle.rowtext.proofs.reader.Reader.read_as.Goals as goal

pub returns-in-Ok-clause-stands : goal.returns-in-Ok-clause-stands
returns-in-Ok-clause-stands c = let h = c.in-Ok.ensures in (h.0, h.1.0, h.1.1.0)

pub returns-in-Ok-clause-fits : goal.returns-in-Ok-clause-fits
returns-in-Ok-clause-fits c = c.in-Ok.ensures.1.1.1
