-- What `hicsolmab_check_page` returns: the refusal of a page as a struct.
use Rattle.combinators.specs.Refusal.{refused_at}
use Rattle.combinators.specs.declared.refusals.Refusal.{Refusal}
use Rattle.engine.specs.declared.pages.PageResult.{PageResult}

-- the refusal that a struct tells
unfoldable pub refusal_in : PageResult → Refusal
refusal_in r = refused_at r.refusal r.place
