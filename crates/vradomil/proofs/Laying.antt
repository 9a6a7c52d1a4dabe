-- The bytes of the fresh tables: no entry in the list, and zeros.
use mathlib.Core.Path.{◌≡◌, refl, sym, ap, ◌∙◌}
use mathlib.Core.Bool.{cond, ◌&&◌}
use mathlib.Core.List.{List, flatten}
use Prim.Native.Nat.{ℕ, ◌<◌}
use native.Mathlib.Omega.{arith}
use lib.ListN.{length, get_or}
use Rattle.std.proofs.lemmas.List.{ext_get_or}
use lib.Dec.{leb, ltb}
use Rattle.lists.specs.Lists.{tabulate}
use Rattle.lists.proofs.Tabulate.{get_d_tabulate}
use Rattle.tables.specs.Sizes.{no_entry}
use Rattle.tables.specs.Tables.{fresh_in, fresh}
use Rattle.layout.specs.Layout.{tables_bytes, tables_size, list_at, waiting_at}

abbrev pub laid : ℕ → ℕ
laid i = cond (leb list_at i && ltb i waiting_at) no_entry 0

all_laid : tables_bytes fresh ≡ tabulate tables_size laid
unfolding tables_bytes fresh_in flatten
all_laid = refl

pub fresh_size : length (tables_bytes fresh) ≡ tables_size
unfolding tables_bytes fresh_in flatten
fresh_size = refl

pub fresh_byte : (i : ℕ) → i < tables_size → laid i ≡ get_or (tables_bytes fresh) i 0
fresh_byte i low = sym (ap (λ l. get_or l i 0) all_laid ∙ get_d_tabulate tables_size laid i 0 low)

pub laid_down : (b : List ℕ) → length b ≡ tables_size → ((i : ℕ) → i < tables_size → get_or b i 0 ≡ laid i) → b ≡ tables_bytes fresh
laid_down b long each = ext_get_or 0 b (tables_bytes fresh) (long ∙ sym fresh_size) (λ i h. each i (omega (arith, long)) ∙ fresh_byte i (omega (arith, long)))
