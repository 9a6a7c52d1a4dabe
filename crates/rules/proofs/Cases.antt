-- The cases, computed.
use mathlib.Core.Path.{◌≡◌, refl}
use mathlib.Core.List.{map}
use lib.Count.{ones, ones_in, count_trailing_zeros}
use Rattle.lists.specs.Lists.{every_below, from_highest}
use Rattle.tables.specs.Tables.{expired_sleepers, queue_in, tables_in, record_ok, fresh_in, change, end_in, move_in, sleep_in, set_priority, write_word}
use Rattle.rules.specs.Commands.{command_of, not_implemented}
use Rattle.rules.specs.Signed.{signed, modulo}
use Rattle.rules.specs.WakeOp.{undefined_op, operand, operate, new_word, compare_by, compares}
use Rattle.rules.specs.Calls.{argument_rows, bad_address, rows_in, candidates_in, released_in, moved_in, released_second, wait, wake, requeue, wake_op, call_effect}
use Rattle.rules.specs.Events.{refusals, clock_effect, interrupt_effect, bits_below, waiting_in, panel_in, effect, step}
use Rattle.rules.specs.Before.{step_unsigned, step_by_arrival}
use Rattle.rules.specs.Cases.{twelve, further, given, reasoned, reasoned_as, shares, share_of, unsounds, unsound_given}
use Rattle.rules.specs.PriorityCases.{prioritised, prioritised_as, choices, chosen_as}
use Rattle.rules.specs.WakeOpCases.{comparisons, compared_as, operations, stored_as, calls, called_as}

pub as_document_01_says : map given twelve ≡ twelve
unfolding step refusals effect rows_in call_effect wait wake requeue wake_op released_in moved_in released_second candidates_in from_highest queue_in argument_rows bad_address not_implemented command_of undefined_op operand signed modulo operate compare_by new_word compares tables_in record_ok fresh_in change end_in move_in sleep_in write_word expired_sleepers clock_effect interrupt_effect every_below
as_document_01_says = refl

pub further_given : map given further ≡ further
unfolding step refusals effect rows_in call_effect wait wake released_in candidates_in from_highest queue_in argument_rows bad_address not_implemented command_of tables_in record_ok fresh_in change end_in sleep_in expired_sleepers clock_effect interrupt_effect every_below undefined_op write_word bits_below waiting_in panel_in ones ones_in count_trailing_zeros set_priority
further_given = refl

pub reasons_given : map reasoned_as reasoned ≡ reasoned
unfolding step refusals effect rows_in call_effect wait wake released_in candidates_in from_highest queue_in argument_rows bad_address not_implemented command_of tables_in record_ok fresh_in change end_in sleep_in expired_sleepers clock_effect interrupt_effect every_below bits_below waiting_in panel_in ones ones_in count_trailing_zeros
reasons_given = refl

pub shares_given : map share_of shares ≡ shares
unfolding step refusals effect rows_in call_effect wait wake released_in candidates_in from_highest queue_in argument_rows bad_address not_implemented command_of tables_in record_ok fresh_in change end_in sleep_in expired_sleepers clock_effect interrupt_effect every_below bits_below waiting_in panel_in ones ones_in count_trailing_zeros
shares_given = refl

pub unsounds_given : map unsound_given unsounds ≡ unsounds
unfolding step refusals effect tables_in record_ok fresh_in every_below bits_below waiting_in panel_in ones ones_in count_trailing_zeros
unsounds_given = refl

-- WAKE_OP's numbers, now and before
pub compared_given : map compared_as comparisons ≡ comparisons
unfolding signed modulo compare_by compares
compared_given = refl

pub stored_given : map stored_as operations ≡ operations
unfolding signed modulo operand operate new_word
stored_given = refl

pub called_given : map called_as calls ≡ calls
unfolding step step_unsigned refusals effect rows_in call_effect wait wake_op released_in released_second candidates_in from_highest queue_in argument_rows bad_address not_implemented command_of undefined_op operand signed modulo operate compare_by new_word compares tables_in record_ok fresh_in change end_in sleep_in write_word expired_sleepers every_below
called_given = refl

-- priorities
pub prioritised_given : map prioritised_as prioritised ≡ prioritised
unfolding step refusals effect rows_in call_effect wait requeue released_in moved_in candidates_in from_highest queue_in argument_rows bad_address not_implemented command_of tables_in record_ok fresh_in change end_in move_in sleep_in set_priority expired_sleepers clock_effect interrupt_effect every_below
prioritised_given = refl

pub choices_given : map chosen_as choices ≡ choices
unfolding step step_by_arrival refusals effect rows_in call_effect wait wake requeue wake_op released_in moved_in released_second candidates_in from_highest queue_in argument_rows bad_address not_implemented command_of undefined_op operand signed modulo operate compare_by new_word compares tables_in record_ok fresh_in change end_in move_in sleep_in set_priority write_word expired_sleepers every_below
choices_given = refl
