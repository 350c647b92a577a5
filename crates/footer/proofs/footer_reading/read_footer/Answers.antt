use Rattle.footer.proofs.footer_reading.read_footer.Goals as goal

pub returns-clause-alone : goal.returns-clause-alone
returns-clause-alone c = λ front other p. (c.in_ok-record.ensures.alone front other p).1
