use Rattle.std.proofs.Common.{◌≡◌, ◌∷◌, refl, sym, ◌∙◌, subst}
use Rattle.kern_ids.specs.declared.calls.Call.TheVariants.{Scan}
use Rattle.kern_ids.specs.declared.replies.Reply.{Reply}
use Rattle.kernel_tables.specs.Values.{values, entry_of}
use Rattle.kernel_tables.specs.Stands.{Stands}
use Rattle.kernel_tables.proofs.parts.Parts.scan_purge.Goals as goal

pub take_picked-requires : goal.take_picked-requires
take_picked-requires g c = (c.requires.0, c.requires.1.1.0)

pub returns-clause-reply : goal.returns-clause-reply
returns-clause-reply g c = c.take_picked.ensures.reply ∙ sym c.requires.1.1.1

pub returns-clause-stands : goal.returns-clause-stands
returns-clause-stands g c =
    let s = c.requires.0 in
    subst (λ (r : Reply). Stands (values c.take_picked.new.self) (entry_of c.args.who Scan r ∷ g.past)) (sym c.take_picked.ensures.reply)
    (c.take_picked.ensures.stands c.args.who Scan refl (c.requires.1.0, sym c.requires.1.1.1, s.legal))
