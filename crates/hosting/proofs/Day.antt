-- The day of specs/Day.antt, computed.
use mathlib.Core.Path.{◌≡◌, refl}
use lib.ListN.{replicate}
use lib.Count.{ones, count_trailing_zeros}
use Rattle.lists.specs.Lists.{every_below, from_highest}
use Rattle.tables.specs.Sizes.{memory_words}
use Rattle.tables.specs.Tables.{expired_sleepers, queue_in, tables_in, record_ok, fresh_in, change, end_in, sleep_in, set_priority, write_word}
use Rattle.rules.specs.Commands.{command_of, not_implemented}
use Rattle.rules.specs.WakeOp.{undefined_op}
use Rattle.rules.specs.Calls.{argument_rows, bad_address, rows_in, candidates_in, released_in, wait, wake, call_effect}
use Rattle.rules.specs.Events.{refusals, clock_effect, interrupt_effect, effect, step, panel_in, waiting_in, bits_below}
use Rattle.rules.specs.History.{start, answers}
use Rattle.vradomil.specs.Host.{report_size}
use Rattle.hosting.specs.Hosts.{hears_all}
use Rattle.hosting.specs.Day.{day, day_heard}

pub day_heard_lem : hears_all (λ e. report_size) day (answers day (start (replicate memory_words 0))) ≡ day_heard
unfolding step refusals effect rows_in call_effect wait wake released_in candidates_in from_highest queue_in argument_rows bad_address not_implemented command_of undefined_op tables_in record_ok fresh_in change end_in sleep_in set_priority write_word expired_sleepers clock_effect interrupt_effect every_below panel_in waiting_in bits_below ones count_trailing_zeros
day_heard_lem = refl
