use Rattle.pages.proofs.page_reading.read_header.Goals as goal

pub returns-in-Err-Truncated-clause-only : goal.returns-in-Err-Truncated-clause-only
returns-in-Err-Truncated-clause-only c = rw c.in-Err-Truncated.field-0-is at c.in-Err-Truncated.ensures.only
