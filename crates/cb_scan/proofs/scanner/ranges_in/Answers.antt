use Rattle.cb_scan.proofs.scanner.ranges_in.Goals as goal

pub returns-in-Standard : goal.returns-in-Standard
returns-in-Standard c = rw c.in-Standard.is c.ranges_in.ensures

pub returns-in-Wide : goal.returns-in-Wide
returns-in-Wide c = rw c.in-Wide.is c.ranges_in-in-Wide.ensures

pub returns-in-Prototypes : goal.returns-in-Prototypes
returns-in-Prototypes c = rw c.in-Prototypes.is c.ranges_in-in-Prototypes.ensures
