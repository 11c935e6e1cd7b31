use Rattle.cbrowse.proofs.execute.finish.put_usage.Goals as goal

pub returns-in-BadField : goal.returns-in-BadField
returns-in-BadField g c = rw c.in-BadField.is c.put_error.ensures

pub returns-in-NoPattern : goal.returns-in-NoPattern
returns-in-NoPattern g c = rw c.in-NoPattern.is c.put_error-in-NoPattern.ensures

pub returns-in-Memory : goal.returns-in-Memory
returns-in-Memory g c = rw c.in-Memory.is c.put_error-in-Memory.ensures
