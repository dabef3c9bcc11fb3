-- Only the room is lent, so what is written lies within it, and the rest of the buffer stays as it was.
use Rattle.compiler.proofs.WritingLaws as laws
use Rattle.compiler.proofs.writing.write_within.Goals as goal

pub slice_bounds-write_sheets-end : goal.slice_bounds-write_sheets-end
slice_bounds-write_sheets-end c = laws.room_fits c.args.compiled.now c.room_of-room.ensures

pub slice_bounds-write_sheets-end-2 : goal.slice_bounds-write_sheets-end-2
slice_bounds-write_sheets-end-2 c = laws.room-long _ c.room_of-room.ensures

pub returns : goal.returns
returns c = let t : goal.returns-raw c = (c.write_sheets.ensures.tokens_unchanged, laws.within _ c.room_of-room.ensures _ _ _ c.write_sheets.ensures.result_after) in record { tokens_unchanged = t.0; value = t.1.0; compiled_after = t.1.1 }
