use Rattle.plain.proofs.measuring.size_of_values.Goals as goal

pub returns-in-Boolean-clause-stands : goal.returns-in-Boolean-clause-stands
returns-in-Boolean-clause-stands c = rw c.in-Boolean.is c.size_of_booleans.ensures.stands

pub returns-in-Boolean-clause-only : goal.returns-in-Boolean-clause-only
returns-in-Boolean-clause-only c = rw c.in-Boolean.is c.size_of_booleans.ensures.only
