-- How long the contents of a page can be: as long as the texts of its rows, and two bytes more for each attribute. On an accepted page these end within the
-- text and the attribute rows lent.
use Prim.Native.Nat.{ℕ, zero, suc, ◌+◌, ◌*◌, ◌≤◌}
use mathlib.Core.Path.{◌≡◌}
use mathlib.Core.List.{List, []}
use native.Mathlib.Omega.{arith}
use lib.ListN.{length, length-append}
use Rattle.combinators.specs.Choice.{is}
use Rattle.combinators.specs.Refusal.{no_refusal}
use Rattle.combinators.proofs.Rules.{pick-holds}
use Rattle.page.specs.Accepted.{attributes_before, texts_end, bytes_before, page_refusal}
use Rattle.page.specs.PathOf.{element_at}
use Rattle.page.specs.Rows.{node_count, node_at, element_kind}
use Rattle.page.proofs.AcceptedPages.{Accepted, accepted}
use Rattle.page.proofs.Sums.{bytes-within, attributes-before-within}
use Rattle.styles.specs.StyleCall.{inline_contents}
use Rattle.styles.proofs.Room.{inline-short, attributes-counted, values-short}
use Rattle.styles.specs.declared.settings.Settings.{Settings}
use Rattle.runner.specs.LeastLengths.{run_text_bytes}
use Rattle.page.specs.Lent.{Page}
use Rattle.runner.specs.PageRows.{row_contents, contents_before, page_contents}

module _ (settings : Settings) (g : Page) where
  -- the contents of a row
  row-short : (i : ℕ) → bytes_before g.nodes g.attributes i + length (row_contents settings g i)
      ≤ bytes_before g.nodes g.attributes (suc i) + 2 * (node_at g.nodes i).attribute_count
  unfolding row_contents bytes_before texts_end element_at
  row-short i =
      let n = node_at g.nodes i in
      let start : ℕ = bytes_before g.nodes g.attributes i in
      let values = values-short g.attributes g.text n.attribute_count n.first_attribute (start + n.name_length) in
      let counted = attributes-counted g.attributes g.text n.attribute_count n.first_attribute in
      let inline = inline-short settings (element_at g.nodes g.attributes g.text i) in
      pick-holds
      (λ (x : List ℕ). start + length x ≤ texts_end g.attributes n start + 2 * n.attribute_count)
      (is n.kind element_kind) (inline_contents settings (element_at g.nodes g.attributes g.text i)) []
      (λ _. omega (arith, values, counted, inline)) (λ _. omega (arith, values))

  -- of the rows before a row
  before-short : (i : ℕ) → length (contents_before settings g i) ≤ bytes_before g.nodes g.attributes i + 2 * attributes_before g.nodes i
  unfolding contents_before attributes_before
  before-short zero = omega arith
  before-short (suc i) = omega (arith, length-append (contents_before settings g i) (row_contents settings g i), row-short i, before-short i)

  -- the contents of an accepted page are no longer than the texts that a run is lent room for
  pub contents-short : page_refusal g.nodes g.attributes g.text ≡ no_refusal → length (page_contents settings g) ≤ run_text_bytes g
  unfolding page_contents
  contents-short e =
      let ok : Accepted g.nodes g.attributes g.text = accepted g.nodes g.attributes g.text e in
      let n : ℕ = node_count g.nodes in
      omega (
        arith,
        before-short n,
        bytes-within g.nodes g.attributes g.text ok n (omega arith),
        attributes-before-within g.nodes g.attributes g.text ok n (omega arith),
      )
