use Rattle.std.proofs.Common.{ℕ, Ok, sym, ap, ◌∙◌, length, ◌+◌}
use Rattle.kern_ids.specs.declared.entries.Entry.{Entry}
use Rattle.line_text.proofs.GrammarLemmas.{ok_is}
use Rattle.history_text.proofs.EntryLaws.{entry_takes, entry_begins, begins_first, begins_not, begins_none}
use Rattle.history_text.proofs.Sound.{text_sound}
use Rattle.history_text.proofs.entry.read_entry.Goals as goal

pub returns-in-Ok-clause-written : goal.returns-in-Ok-clause-written
returns-in-Ok-clause-written c = entry_begins c.args.bytes.now c.in-Some.line.now c.in-Some.field-0-1.now c.in-Ok.entry c.in-Some.ensures.parts c.in-Ok.ensures

pub returns-in-Ok-clause-text : goal.returns-in-Ok-clause-text
returns-in-Ok-clause-text c = let t = entry_takes c.in-Some.line.now c.in-Ok.entry c.in-Ok.ensures in t.1

pub returns-in-Ok-clause-sound : goal.returns-in-Ok-clause-sound
returns-in-Ok-clause-sound c = let t = entry_takes c.in-Some.line.now c.in-Ok.entry c.in-Ok.ensures in text_sound c.in-Ok.entry t.1

pub returns-in-Ok-clause-again : goal.returns-in-Ok-clause-again
returns-in-Ok-clause-again c =
    let line = c.in-Some.line.now in
    λ e n h b.
    let f = begins_first c.args.bytes.now line c.in-Some.field-0-1.now e n h b c.in-Some.ensures.parts in
    let same = ok_is c.in-Ok.entry e (sym c.in-Ok.ensures ∙ f.0) in
    ap (λ (x : Entry). Ok (x, length line + 1)) same ∙ ap (λ (k : ℕ). Ok (e, k)) (sym f.1)

pub returns-in-Err-clause-again : goal.returns-in-Err-clause-again
returns-in-Err-clause-again c = λ e n h b. absurd (begins_not c.args.bytes.now c.in-Some.line.now c.in-Some.field-0-1.now c.in-Err.field-0 e n c.in-Some.ensures.parts c.in-Err.ensures h b)

pub returns-in-Err-clause-none : goal.returns-in-Err-clause-none
returns-in-Err-clause-none c = λ e n h b. begins_not c.args.bytes.now c.in-Some.line.now c.in-Some.field-0-1.now c.in-Err.field-0 e n c.in-Some.ensures.parts c.in-Err.ensures h b

pub returns-in-None-clause-again : goal.returns-in-None-clause-again
returns-in-None-clause-again c = λ e n h b. absurd (begins_none c.args.bytes.now e n h b c.in-None.ensures.parts)

pub returns-in-None-clause-none : goal.returns-in-None-clause-none
returns-in-None-clause-none c = λ e n h b. begins_none c.args.bytes.now e n h b c.in-None.ensures.parts
