-- A compound without tests has a mark of one byte; for any other the mark and the two bytes of the count are stored one behind the other.
use Rattle.sweeps.proofs.CodePartLaws as laws
use Rattle.sweeps.proofs.parts.put_mark.Goals as goal

pub returns-then-tests-eq0 : goal.returns-then-tests-eq0
returns-then-tests-eq0 c = laws.mark-none _ _ _ _ c.if-tests-eq0.true c.put_byte.ensures

pub returns : goal.returns
returns c = laws.mark-some _ _ _ _ _ c.if-tests-eq0.false c.put_byte-2.ensures c.put_pair.ensures
