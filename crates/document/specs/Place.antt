-- What refuses every call on the documentation sector. Where its bytes lie is in `sector_table/specs/Place`. Assumes nothing.
use Rattle.std.specs.Prelude.{ℕ, List}
use Rattle.sectors.specs.Calls.{accepted_answer}

-- 1, 2, 5, 6: what refuses every call, before it looks at a byte of the sector
unfoldable pub doc_refusal : ℕ → List ℕ → ℕ
doc_refusal f line = accepted_answer f line 1
