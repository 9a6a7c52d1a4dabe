use mathlib.Core.Path.{◌∙◌}
use Rattle.rules.specs.declared.event.Call.{Call}
use Rattle.rules.specs.declared.event.Event.TheVariants.{Call as CallEvent}
use Rattle.rules.proofs.Reasons.{call_reason}
use Rattle.vradomil.specs.Host.{seen}
use Rattle.vradomil.proofs.Reports.{report_made, handed_on}
use Rattle.vradomil.proofs.report.vradomil_call_report.Goals as goal

pub returns : goal.returns
returns c =
    let a = c.args in
    let call : Call = record { process = a.process; index = a.index; op = a.op; uaddr = a.uaddr; val = a.val; flag = a.flag; timeout = a.timeout; uaddr2 = a.uaddr2; val3 = a.val3 } in
    let w = seen a.tables.now a.words.now in
    let number = handed_on c.vradomil_call-number.result c.vradomil_call-number.type_inv ∙ c.vradomil_call-number.ensures.number in
    record {
      number = number;
      tables = c.vradomil_call-number.ensures.tables;
      words = c.vradomil_call-number.ensures.words;
      report = c.put_report.ensures
          ∙ report_made (CallEvent call) w number (call_reason call w) c.reason_of_call.ensures a.report.now;
      fits = c.vradomil_call-number.ensures.fits;
    }
