-- The byte of the flag decides: below a mark it is a flag, and the compound is walked; a mark says how many tests the leftmost compound has.
use Rattle.sweeps.proofs.CodeSweepLaws as laws
use Rattle.sweeps.proofs.sweeping.sweep_one.Goals as goal

pub returns-then-byte-lt-WITHOUT_TESTS : goal.returns-then-byte-lt-WITHOUT_TESTS
returns-then-byte-lt-WITHOUT_TESTS c = laws.one-compound _ _ _ _ _ _ c.peek-byte.ensures c.if-byte-lt-WITHOUT_TESTS.true _ _ c.compound_at-compound.ensures

pub returns : goal.returns
returns c = laws.one-mark _ _ _ _ _ _ c.peek-byte.ensures c.if-byte-lt-WITHOUT_TESTS.false _ c.marked_tests-tests.ensures _ c.tests_pass.ensures
