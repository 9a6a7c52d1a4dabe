-- What the val3 of a WAKE_OP stands for: its arguments as words, its comparison as one of words, and what both were when they were unsigned.
use mathlib.Core.Path.{◌≡◌, sym, ap, ◌∙◌}
use mathlib.Core.Bool.{Bool, true, false, not, ◌||◌}
use Prim.Native.Nat.{ℕ, ◌+◌, ◌-◌, ◌*◌, ◌/◌, ◌%◌, ◌^◌, ◌≤◌, ◌<◌}
use native.Mathlib.Nat.{mod-eq_of_lt}
use native.Mathlib.Omega.{arith}
use lib.Dec.{eqb, ltb}
use lib.IntN.{ℤ, pos, negsuc, ◌+ℤ◌}
use lib.Pow.{shr-shr, split}
use lib.Signed.{lt_z}
use borrow.Author.Tests.{not-true, lt-leb, le-leb, ltb-true, ltb-false, lt-ltb}
use Rattle.lists.proofs.Tests.{cases}
use Rattle.tables.specs.Sizes.{word_bits, word_limit}
use Rattle.rules.specs.Signed.{negative, signed, Within, modulo, turned, eq_z}
use Rattle.rules.specs.WakeOp.{code_bits, arg_bits, cmp_at, op_at, op_field, cmp_field, op_arg_field, cmp_arg_field, op_arg, cmp_arg, shift_bit, is_power, operand, operate, new_word, compare_by, compares, val3_of}
use Rattle.rules.specs.Before.{operand_unsigned, new_word_unsigned, compares_unsigned}
use Rattle.rules.proofs.Signed.{signed_within, signed_back, signed_of, same_turned, below_turned, modulo_low, sum_modulo}

-- an argument stands for the same number in its own bits and in those of a word
arg_word : (f : ℕ) → f < 2 ^ arg_bits → signed word_bits (modulo word_limit (signed arg_bits f)) ≡ signed arg_bits f
arg_word f h =
    let m = signed_within arg_bits (omega arith) f h in
    signed_of word_bits (omega arith) (signed arg_bits f) (omega arith)

-- that word: of a field of the lower half the field itself, of one of the upper half the word that 2^12 brings back to it
pub low_word : (x : ℕ) → x < 2 ^ (arg_bits - 1) → x ≡ modulo word_limit (signed arg_bits x)
unfolding signed modulo
low_word x h = rw (lt-leb (2 ^ (arg_bits - 1)) x h) (omega arith)

pub high_word : (x : ℕ) → 2 ^ (arg_bits - 1) ≤ x → x < word_limit → (x + (word_limit - 2 ^ arg_bits)) % word_limit ≡ modulo word_limit (signed arg_bits x)
unfolding signed modulo
high_word x h l = rw (le-leb (2 ^ (arg_bits - 1)) x h) (cases (ltb x (2 ^ arg_bits))
    (λ t. let m = ltb-true x (2 ^ arg_bits) t in rw t (omega arith))
    (λ t. let m = ltb-false x (2 ^ arg_bits) t in rw t (omega arith)))

-- a comparison by other tests of other numbers that agree
compare_alike : {A B : Type 0} (same below : A → A → Bool) (same' below' : B → B → Bool) (n : ℕ) (x y : A) (u v : B)
    → same x y ≡ same' u v → below x y ≡ below' u v → below y x ≡ below' v u → compare_by same below n x y ≡ compare_by same' below' n u v
unfolding compare_by
compare_alike same below same' below' n x y u v e l g = rw (e, l, g)

-- the comparison, of words with the top bit turned
pub compares_turned : (v old : ℕ) → old < word_limit
    → compares v old ≡ compare_by eqb ltb (cmp_field v) (turned word_bits old) (turned word_bits (modulo word_limit (cmp_arg v)))
unfolding compares
compares_turned v old h =
    let x = modulo word_limit (cmp_arg v) in
    let l : x < word_limit = modulo_low word_limit (cmp_arg v) (omega arith) in
    let p : 0 < word_bits = omega arith in
    ap (λ z. compare_by eq_z lt_z (cmp_field v) (signed word_bits old) z) (sym (arg_word (cmp_arg_field v) (omega arith)))
    ∙ compare_alike eq_z lt_z eqb ltb (cmp_field v) _ _ _ _ (same_turned word_bits p old x h l) (below_turned word_bits p old x h l) (below_turned word_bits p x old l h)

-- the same by numbers that code has found
pub compares_by : (v old cmp x y : ℕ) → old < word_limit → cmp ≡ cmp_field v → x ≡ turned word_bits (modulo word_limit (cmp_arg v)) → y ≡ turned word_bits old
    → compare_by eqb ltb cmp y x ≡ compares v old
compares_by v old cmp x y h c e f = rw (c, e, f) (sym (compares_turned v old h))

-- "2 to the power (oparg mod 32)" is the same of the signed number, of the word that stands for it, and of the field
pub shift_of_word : (z : ℤ) → modulo word_limit z % word_bits ≡ modulo word_bits z
unfolding modulo
shift_of_word (pos k) = omega arith
shift_of_word (negsuc k) = omega arith

pub shift_of_field : (f : ℕ) → f < 2 ^ arg_bits → modulo word_bits (signed arg_bits f) ≡ f % word_bits
unfolding signed modulo
shift_of_field f h = cases (negative arg_bits f)
    (λ e. rw (e, lt-ltb f (2 ^ arg_bits) h) (omega arith))
    (λ e. rw e)

-- where nothing is negative, nothing changed
signed_plain : (bits x : ℕ) → negative bits x ≡ false → signed bits x ≡ pos x
unfolding signed
signed_plain bits x e = rw e

pub operand_plain : (v : ℕ) → (is_power v || not (negative arg_bits (op_arg_field v))) ≡ true → operand v ≡ operand_unsigned v
unfolding operand modulo
operand_plain v h = cases (is_power v)
    (λ e. rw e (ap (2 ^◌) (shift_of_field (op_arg_field v) (omega arith))))
    (λ e. let low = not-true _ (rw e at h) in rw (e, signed_plain arg_bits (op_arg_field v) low) (omega arith))

pub new_word_plain : (v old : ℕ) → (is_power v || not (negative arg_bits (op_arg_field v))) ≡ true → new_word v old ≡ new_word_unsigned v old
unfolding new_word
new_word_plain v old e = rw (operand_plain v e)

pub compares_plain : (v old : ℕ) → negative arg_bits (cmp_arg_field v) ≡ false → negative word_bits old ≡ false → compares v old ≡ compares_unsigned v old
unfolding compares compare_by
compares_plain v old e f = rw (signed_plain arg_bits (cmp_arg_field v) e, signed_plain word_bits old f)

-- a word that holds a signed number: what it is compared as; what the operand is, and what is added
pub compares_signed : (v : ℕ) (z : ℤ) → Within word_bits z → compares v (modulo word_limit z) ≡ compare_by eq_z lt_z (cmp_field v) z (cmp_arg v)
unfolding compares
compares_signed v z h = rw (signed_of word_bits (omega arith) z h)

pub operand_signed : (v : ℕ) → op_field v < shift_bit → operand v ≡ modulo word_limit (op_arg v)
unfolding operand
operand_signed v h = rw (lt-leb shift_bit (op_field v) h)

pub operand_power : (v : ℕ) → shift_bit ≤ op_field v → operand v ≡ 2 ^ modulo word_bits (op_arg v)
unfolding operand
operand_power v h = rw (le-leb shift_bit (op_field v) h)

pub add_signed : (v : ℕ) (z : ℤ) → op_field v ≡ 1 → new_word v (modulo word_limit z) ≡ modulo word_limit (z +ℤ op_arg v)
unfolding new_word operate operand
add_signed v z e = rw e (sum_modulo z (op_arg v))

-- the parts of a val3
pub val3_parts : (op cmp : ℕ) (oparg cmparg : ℤ) → op < 2 ^ code_bits → cmp < 2 ^ code_bits → Within arg_bits oparg → Within arg_bits cmparg
    → let v = val3_of op oparg cmp cmparg in (op_field v ≡ op) × (cmp_field v ≡ cmp) × (op_arg v ≡ oparg) × (cmp_arg v ≡ cmparg)
val3_parts op cmp oparg cmparg h k l m =
    let a : modulo (2 ^ arg_bits) oparg < 2 ^ arg_bits = modulo_low (2 ^ arg_bits) oparg (omega arith) in
    let b : modulo (2 ^ arg_bits) cmparg < 2 ^ arg_bits = modulo_low (2 ^ arg_bits) cmparg (omega arith) in
    let p : 0 < arg_bits = omega arith in (
      omega arith,
      omega arith,
      ap (signed arg_bits) (omega arith) ∙ signed_of arg_bits p oparg l,
      ap (signed arg_bits) (omega arith) ∙ signed_of arg_bits p cmparg m,
    )

-- a number is put together again from its parts
fields_sum : (v : ℕ) → v < word_limit → op_field v * 2 ^ op_at + cmp_field v * 2 ^ cmp_at + op_arg_field v * 2 ^ arg_bits + cmp_arg_field v ≡ v
fields_sum v h =
    let x = v / 2 ^ 12 in
    let y = v / 2 ^ 24 in
    let z = v / 2 ^ 28 in
    let e : x / 2 ^ 12 ≡ y = shr-shr v 12 12 in
    let f : y / 2 ^ 4 ≡ z = shr-shr v 24 4 in
    let a : y * 2 ^ 12 + x % 2 ^ 12 ≡ x = rw (← e) (split x 12) in
    let b : z * 2 ^ 4 + y % 2 ^ 4 ≡ y = rw (← f) (split y 4) in
    let d : z < 2 ^ 4 = omega arith in
    let low : z % 2 ^ 4 ≡ z = mod-eq_of_lt d in
    rw low (omega (arith, a, b, split v 12))

pub val3_whole : (v : ℕ)
    → (op_field v < 2 ^ code_bits)
    × (cmp_field v < 2 ^ code_bits)
    × Within arg_bits (op_arg v)
    × Within arg_bits (cmp_arg v)
    × (v < word_limit → val3_of (op_field v) (op_arg v) (cmp_field v) (cmp_arg v) ≡ v)
val3_whole v =
    let p : 0 < arg_bits = omega arith in
    let a : op_arg_field v < 2 ^ arg_bits = omega arith in
    let b : cmp_arg_field v < 2 ^ arg_bits = omega arith in (
      omega arith,
      omega arith,
      signed_within arg_bits p (op_arg_field v) a,
      signed_within arg_bits p (cmp_arg_field v) b,
      λ h. rw (signed_back arg_bits p (op_arg_field v) a, signed_back arg_bits p (cmp_arg_field v) b) (fields_sum v h),
    )
