-- Refusals in words: an error by its name in the Linux headers, and a reason as the table of docs/INTEGRATION.md has it.
use Rattle.std.specs.Prelude.{ℕ, List, [], ◌++◌, Option, Some, None, codes}
use Rattle.rules.specs.declared.answer.Errno.{Errno}
use Rattle.rules.specs.declared.answer.Errno.TheVariants.{ENXIO, EBADF, ESRCH, EBUSY, ENOSYS, EINVAL, EFAULT, EAGAIN, ETIMEDOUT}
use Rattle.rules.specs.declared.answer.Reason.{Reason}
use Rattle.rules.specs.declared.answer.Reason.TheVariants.{FirstCap, SecondCap, MaskZero, UaddrUnaligned, Uaddr2Unaligned, SameAddress, ClockBack, PriorityHigh}
use Rattle.rules.specs.declared.answer.Refusal.{Refusal}

abbrev pub errno_text : Errno → List ℕ
errno_text ENXIO = codes "ENXIO"
errno_text EBADF = codes "EBADF"
errno_text ESRCH = codes "ESRCH"
errno_text EBUSY = codes "EBUSY"
errno_text ENOSYS = codes "ENOSYS"
errno_text EINVAL = codes "EINVAL"
errno_text EFAULT = codes "EFAULT"
errno_text EAGAIN = codes "EAGAIN"
errno_text ETIMEDOUT = codes "ETIMEDOUT"

abbrev pub reason_text : Reason → List ℕ
reason_text FirstCap = codes "val, the first cap, is above 2147483647"
reason_text SecondCap = codes "the second cap is above 2147483647"
reason_text MaskZero = codes "val3, the mask, is 0"
reason_text UaddrUnaligned = codes "uaddr, or a store's address, is not a multiple of 4"
reason_text Uaddr2Unaligned = codes "uaddr2 is not a multiple of 4"
reason_text SameAddress = codes "uaddr and uaddr2 are the same"
reason_text ClockBack = codes "the clock went back"
reason_text PriorityHigh = codes "the priority is above 31"

-- a reason behind its error, where there is one
abbrev pub behind : Option Reason → List ℕ
behind None = []
behind (Some r) = codes ": " ++ reason_text r

abbrev pub refusal_text : Refusal → List ℕ
refusal_text x = errno_text x.errno ++ behind x.reason
