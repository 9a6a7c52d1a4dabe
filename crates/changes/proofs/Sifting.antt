-- A loop takes those who pass out of a list where it lies: the filler is laid over each entry, and one that does not pass is laid down again
-- behind those that were kept before it.
use mathlib.Core.Path.{◌≡◌, refl, sym, ap, ◌∙◌}
use mathlib.Core.Bool.{Bool, true, false, not, cond}
use mathlib.Core.List.{List, [], ◌∷◌, ◌++◌, append_assoc, append-nil}
use Prim.Native.Nat.{ℕ, ◌+◌, ◌-◌, ◌≤◌, ◌<◌}
use native.Mathlib.Numerals.{add-one}
use native.Mathlib.Omega.{arith}
use lib.ListN.{length, take, drop, get_or, set, replicate, length-append, length-set, length-drop, length-replicate, replicate-append-replicate}
use lib.Seq.{sets, length-take-le, append_snoc, set-append_left, set_at, get_or_at, get_or-take, get_or-drop, take-set-le, take-suc-set, drop-append_seam}
use Rattle.lists.specs.Lists.{filter, all, bit, pad_to}
use Rattle.lists.specs.LittleEndian.{bytes}
use Rattle.lists.proofs.Tests.{cases, clash, bit_le}
use Rattle.lists.proofs.Filter.{filter_append, filter_none, length_filter}
use Rattle.lists.proofs.Occurs.{elem_part, elem_get_d}
use Rattle.lists.proofs.Loops.{take_next, drop_next, length_snoc, pad_to_snoc, pad_to_filler}
use Rattle.lists.proofs.Padded.{take_padded}
use Rattle.tables.specs.declared.State.{State}
use Rattle.tables.specs.declared.LastAnswer.{LastAnswer}
use Rattle.tables.specs.declared.Change.TheVariants.{End}
use Rattle.tables.specs.declared.Taken.{Taken}
use Rattle.tables.specs.Sizes.{threads, no_entry}
use Rattle.tables.specs.Editions.{present}
use Rattle.tables.specs.Tables.{arrivals, change, with_threads, with_arrivals, ended, end_sleeps, tables_ok}
use Rattle.tables.specs.Steps.{Numbers, changed_by, split_of, end_flagged}
use Rattle.tables.proofs.Sound.{Sound, tables_sound, listed_below, arrivals_fit, few}
use Rattle.tables.proofs.Stored.{ends, end_nobody}
use Rattle.layout.specs.Layout.{time_bytes, count_at, list_at, waiting_at, tables_bytes}
use Rattle.changes.specs.Change.{Whole, on_list, Writes, Sifted}
use Rattle.changes.proofs.Standing.{whole, list_in, behind_list}
use Rattle.changes.proofs.Changing.{whole_list}
use Rattle.changes.proofs.Writing.{part_put, count_put}

-- a list that is stored in i places
length_padded : (i : ℕ) (z : ℕ) (l : List ℕ) → length l ≤ i → length (pad_to i z l) ≡ i
length_padded i z l fits = simp (length-append, length-replicate) (omega arith)

-- the filler behind it, up to n places, or in one place more
padded_on : (i n z : ℕ) (l : List ℕ) → length l ≤ i → i ≤ n → pad_to i z l ++ replicate (n - i) z ≡ pad_to n z l
padded_on i n z l fits less =
    let both : i - length l + (n - i) ≡ n - length l = omega arith in
    append_assoc l (replicate (i - length l) z) (replicate (n - i) z)
    ∙ ap (l ++◌) (replicate-append-replicate (i - length l) (n - i) z ∙ ap (λ k. replicate k z) both)

padded_more : (i z : ℕ) (l rest : List ℕ) → length l ≤ i → pad_to i z l ++ (z ∷ rest) ≡ pad_to (i + 1) z l ++ rest
padded_more i z l rest fits =
    let one : 1 ≡ i + 1 - i = omega arith in
    sym (append_snoc (pad_to i z l) z rest)
    ∙ ap (◌++ rest) (ap (λ k. pad_to i z l ++ replicate k z) one ∙ padded_on i (i + 1) z l fits (omega arith))

-- the entries that were kept, with one more or without it
abbrev more : Bool → List ℕ → ℕ → List ℕ
more hit l x = cond hit (l ++ (x ∷ [])) l

filter_more : (f : ℕ → Bool) (l : List ℕ) (x : ℕ) (hit : Bool) → hit ≡ f x → filter f (l ++ (x ∷ [])) ≡ more hit (filter f l) x
filter_more f l x true is = filter_append f l (x ∷ []) ∙ ap (λ b. filter f l ++ cond b (x ∷ []) []) (sym is)
filter_more f l x false is = filter_append f l (x ∷ []) ∙ ap (λ b. filter f l ++ cond b (x ∷ []) []) (sym is) ∙ append-nil (filter f l)

length_more : (hit : Bool) (l : List ℕ) (x : ℕ) → length (more hit l x) ≡ length l + bit hit
length_more true l x = length_snoc l x
length_more false l x = omega arith

laid : (i z : ℕ) (l : List ℕ) (x : ℕ) (hit : Bool) → length l < i → set (pad_to i z l) (length l) (cond hit z x) ≡ pad_to i z (more (not hit) l x)
laid i z l x true room = pad_to_filler i z l room
laid i z l x false room = pad_to_snoc i z l x room

-- one turn
sift_one : (kept list : List ℕ) (i w z x : ℕ) (hit : Bool) → w ≡ length kept → w ≤ i → i < length list
    → set (set (pad_to i z kept ++ drop i list) i z) w (cond hit z x) ≡ pad_to (i + 1) z (more (not hit) kept x) ++ drop (i + 1) list
sift_one kept list i w z x hit is fits on =
    let rest = drop (i + 1) list in
    let v = cond hit z x in
    (λ j. set (set (pad_to i z kept ++ drop_next list i 0 on j) i z) (is j) v)
    ∙ ap (λ l. set l (length kept) v) (set_at (pad_to i z kept) (get_or list i 0) rest z i (length_padded i z kept (omega arith)) ∙ padded_more i z kept rest (omega arith))
    ∙ set-append_left (pad_to (i + 1) z kept) rest (length kept) v (omega (arith, length_padded (i + 1) z kept (omega arith)))
    ∙ ap (◌++ rest) (laid (i + 1) z kept x hit (omega arith))

-- those who passed, at the front of an array
passed_more : (who : List ℕ) (n x : ℕ) (hit : Bool) → n < length who → take (n + bit hit) (set who n x) ≡ more hit (take n who) x
passed_more who n x true room = rw (add-one n) (take-suc-set who n x room)
passed_more who n x false room = let e : n + 0 ≡ n = omega arith in rw e (take-set-le n who n x (omega arith))

module _ (f : ℕ → Bool) (s : State) where
  abbrev found : ℕ → List ℕ
  found i = filter f (take i s.list)

  abbrev kept : ℕ → List ℕ
  kept i = filter (λ t. not (f t)) (take i s.list)

  -- the list once i entries are gone through
  abbrev left : ℕ → List ℕ
  left i = pad_to i no_entry (kept i) ++ drop i s.list

  pub record Sifting (b who : List ℕ) (n w i : ℕ) : Type 0 where
    pub within : i ≤ s.count
    pub size : length who ≡ threads
    pub found_few : n ≤ i
    pub kept_few : w ≤ i
    pub passed : take n who ≡ found i
    pub counted : n ≡ length (found i)
    pub fewer : w ≡ length (kept i)
    pub bytes : b ≡ tables_bytes (on_list (λ l. left i) s)

module _ (f : ℕ → Bool) (s : State) (ok : tables_ok s ≡ true) where
  sound : Sound s
  sound = tables_sound s ok

  pub sifting_start : (b who : List ℕ) → b ≡ tables_bytes s → length who ≡ threads → Sifting f s b who 0 0 0
  sifting_start b who is size =
      record { within = omega arith; size = size; found_few = omega arith; kept_few = omega arith; passed = refl; counted = refl; fewer = refl; bytes = is }

  module _ (b who : List ℕ) (n w i : ℕ) (g : Sifting f s b who n w i) where
    gone : length (take i s.list) ≡ i
    gone = length-take-le i s.list (omega (arith, g.within, few s sound, (whole s ok).entries))

    left_size : length (left f s i) ≡ threads
    left_size = omega (
      arith,
      length-append (pad_to i no_entry (kept f s i)) (drop i s.list),
      length_padded i no_entry (kept f s i) (omega (arith, g.fewer, g.kept_few)),
      length-drop i s.list,
      g.within,
      few s sound,
      (whole s ok).entries,
    )

    left_whole : Whole (on_list (λ l. left f s i) s)
    left_whole = whole_list s (left f s i) left_size (whole s ok)

    -- behind the list the bytes are as they were
    pub sifting_behind : (b₀ : List ℕ) → b₀ ≡ tables_bytes s → drop waiting_at b ≡ drop waiting_at b₀
    sifting_behind b₀ is =
        ap (drop waiting_at) g.bytes ∙ behind_list s (whole s ok) (left f s i) left_size ∙ ap (drop waiting_at) (sym is)

    module _ (on : i < s.count) where
      inside : i < threads
      inside = omega (arith, few s sound)

      -- what is read was not stored yet
      pub sifting_read : get_or b (list_at + i) 0 ≡ get_or s.list i 0
      sifting_read =
          sym (get_or-take threads (drop list_at b) i 0 inside ∙ get_or-drop list_at b i 0)
          ∙ ap (λ l. get_or l i 0) (list_in (on_list (λ l. left f s i) s) left_whole b g.bytes)
          ∙ ap (λ l. get_or (pad_to i no_entry (kept f s i) ++ l) i 0) (drop_next s.list i 0 (omega (arith, inside, (whole s ok).entries)))
          ∙ get_or_at (pad_to i no_entry (kept f s i)) (get_or s.list i 0) (drop (i + 1) s.list) 0 i (length_padded i no_entry (kept f s i) (omega (arith, g.fewer, g.kept_few)))

      pub sifting_next : (x : ℕ) → x ≡ get_or s.list i 0 → (hit : Bool) → hit ≡ f x
          → Sifting f s (set (set b (list_at + i) no_entry) (list_at + w) (cond hit no_entry x)) (set who n x) (n + bit hit) (w + bit (not hit)) (i + 1)
      sifting_next x is hit test =
          let next : take (i + 1) s.list ≡ take i s.list ++ (x ∷ []) =
          take_next s.list i 0 (omega (arith, inside, (whole s ok).entries)) ∙ ap (λ y. take i s.list ++ (y ∷ [])) (sym is) in
          let out : found f s (i + 1) ≡ more hit (found f s i) x = ap (filter f) next ∙ filter_more f (take i s.list) x hit test in
          let stays : kept f s (i + 1) ≡ more (not hit) (kept f s i) x =
          ap (filter (λ t. not (f t))) next ∙ filter_more (λ t. not (f t)) (take i s.list) x (not hit) (ap not test) in
          let v = cond hit no_entry x in
          let here = on_list (λ l. left f s i) s in
          let once = on_list (λ l. set (left f s i) i no_entry) s in
          let once_whole : Whole once = whole_list s (set (left f s i) i no_entry) (length-set (left f s i) i no_entry ∙ left_size) (whole s ok) in
          record {
            within = omega arith;
            size = length-set who n x ∙ g.size;
            found_few = omega (arith, g.found_few, bit_le hit);
            kept_few = omega (arith, g.kept_few, bit_le (not hit));
            passed = passed_more who n x hit (omega (arith, inside, g.found_few, g.size)) ∙ ap (λ l. more hit l x) g.passed ∙ sym out;
            counted = ap (◌+ bit hit) g.counted ∙ sym (ap length out ∙ length_more hit (found f s i) x);
            fewer = ap (◌+ bit (not hit)) g.fewer ∙ sym (ap length stays ∙ length_more (not hit) (kept f s i) x);
            bytes =
                part_put once once_whole w (v ∷ []) (omega (arith, inside, g.kept_few)) (set b (list_at + i) no_entry)
                (part_put here left_whole i (no_entry ∷ []) (omega (arith, inside)) b g.bytes)
                ∙ ap (λ l. tables_bytes (on_list (λ y. l) s))
                (sift_one (kept f s i) s.list i w no_entry x hit g.fewer g.kept_few (omega (arith, inside, (whole s ok).entries))
                ∙ ap (λ l. pad_to (i + 1) no_entry l ++ drop (i + 1) s.list) (sym stays));
          }

    -- the fillers that the list had are behind those that were laid
    pub sifting_all : s.count ≤ i → (after : List ℕ) → after ≡ sets b count_at (bytes time_bytes w) → Sifted f s who n after
    sifting_all end after put =
        let all : i ≡ s.count = omega (arith, g.within) in
        let here : i ≡ length (arrivals s) = all ∙ sound.counted in
        let same : kept f s i ≡ kept f s s.count = ap (kept f s) all in
        let tail : drop i s.list ≡ replicate (threads - i) no_entry =
        (λ j. drop (here j) (sound.stored j)) ∙ drop-append_seam (arrivals s) (replicate (threads - length (arrivals s)) no_entry)
        ∙ ap (λ k. replicate (threads - k) no_entry) (sym here) in
        let list : left f s i ≡ pad_to threads no_entry (kept f s s.count) =
        ap (pad_to i no_entry (kept f s i) ++◌) tail
        ∙ padded_on i threads no_entry (kept f s i) (omega (arith, g.fewer, g.kept_few)) (omega (arith, all, few s sound)) ∙ ap (pad_to threads no_entry) same in
        record {
          passed = g.passed ∙ ap (found f s) all;
          counted = g.counted ∙ ap (λ k. length (found f s k)) all;
          bytes = put ∙ count_put (on_list (λ l. left f s i) s) left_whole w b g.bytes
              ∙ (λ j. tables_bytes (record { clock = s.clock; threads = s.threads; list = list j; count = (g.fewer ∙ ap length same) j }));
        }

-- Those who passed end their sleep.
module _ (f : ℕ → Bool) (s : State) (ok : tables_ok s ≡ true) where
  module _ (b who : List ℕ) (n : ℕ) (h : Sifted f s who n b) where
    abbrev out : List ℕ
    out = filter f (arrivals s)

    abbrev stay : List ℕ
    stay = filter (λ t. not (f t)) (arrivals s)

    pub sifted_few : n ≤ threads
    sifted_few = omega (arith, h.counted, length_filter f (arrivals s), arrivals_fit s (tables_sound s ok))

    pub sifted_numbers : Numbers (take n who) (length (take n who))
    sifted_numbers = rw h.passed (record {
      few = omega (arith, sifted_few, h.counted);
      below = λ k low. listed_below s (tables_sound s ok) (get_or out k 0) (elem_part f (get_or out k 0) (arrivals s) (elem_get_d out k 0 low));
    })

    pub sifted_ends : (a : LastAnswer) (after : List ℕ) → Writes (λ u. with_threads (change (changed_by (End a)) (take n who) u.threads) u) b after
        → (n ≡ (end_flagged a f s).n) × (after ≡ tables_bytes (end_flagged a f s).state)
    unfolding split_of
    sifted_ends a after done =
        let g = tables_sound s ok in
        let fits : length stay ≤ threads = omega (arith, length_filter (λ t. not (f t)) (arrivals s), arrivals_fit s g) in
        let w : Whole (with_arrivals present stay s) = record { records = g.records; entries = length_padded threads no_entry stay fits } in
        let they : take n who ≡ take (length out) (pad_to threads no_entry out) = h.passed ∙ sym (take_padded threads no_entry out) in
        let all = ends s g f (split_of f (arrivals s)) refl a (with_threads (change (ended a) (take n who) s.threads) s) (ap (λ ts. with_threads (change (ended a) ts s.threads) s) they) in (
          h.counted ∙ ap (λ (t : Taken). t.n) all,
          done (with_arrivals present stay s) w h.bytes ∙ ap (λ (t : Taken). tables_bytes t.state) all,
        )

  -- where nobody passes, nothing changes
  pub nobody_ends : (a : LastAnswer) (b : List ℕ) → b ≡ tables_bytes s → (any : Bool) → any ≡ not (all (λ t. not (f t)) (arrivals s)) → any ≡ false
      → (0 ≡ (end_flagged a f s).n) × (b ≡ tables_bytes (end_flagged a f s).state)
  unfolding end_flagged
  nobody_ends a b is any told none =
      let fails : (x : Bool) → not x ≡ true → x ≡ false = λ x e. cases x (λ d. clash (not x) e (ap not d)) (λ d. d) in
      let each = cases (all (λ t. not (f t)) (arrivals s)) (λ e. e) (λ e. clash any (told ∙ ap not e) none) in
      let nobody = filter_none f (λ t. not (f t)) (λ t. fails (f t)) (arrivals s) each in (
        sym (ap length nobody),
        is ∙ ap tables_bytes (sym (ap (λ ts. end_sleeps a ts s) nobody ∙ end_nobody a s (tables_sound s ok))),
      )
