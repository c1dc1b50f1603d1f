use Rattle.std.specs.Prelude.{◌≡◌, ℕ, List, [], ◌∷◌, true, false}
use Rattle.std.proofs.Common.{refl}
use Rattle.kern_ids.specs.declared.entries.Entry.{Entry}
use Rattle.kern_ids.specs.declared.calls.State.TheVariants.{Nonvolatile as s_nonvolatile, Volatile as s_volatile, Empty as s_empty}
use Rattle.kern_ids.specs.declared.calls.Call.{Call}
use Rattle.kern_ids.specs.declared.calls.Call.TheVariants.{Map, Write, Read, SetState, GetState, Active, Ledger, PurgeOne, Forced, Scan, Tick, Jetsam, SetBand, SetLimits, Info, Purgeables, Attach}
use Rattle.kern_ids.specs.declared.replies.Reply.{Reply}
use Rattle.kern_ids.specs.declared.replies.Reply.TheVariants.{Mapped, Wrote, Bytes, Old, Is, Was, Pages, Purged, Nothing, Enough, Moved, Aged, Quiet, Killed, NoVictim, Banded, Limited, Frames, Tokens, Refused, Attached}
use Rattle.kern_ids.specs.declared.replies.Move.TheVariants.{Deactivated, Reactivated, Freed, Compressed, Requeued}
use Rattle.kern_ids.specs.declared.replies.Cause.TheVariants.{Limit as by_limit, HighWater, Pressure}
use Rattle.kern_ids.specs.declared.replies.Refusal.TheVariants.{Dead, Invalid, Emptied}
use Rattle.kernel_model.specs.declared.boot.Side.TheVariants.{Task, Kernel}
use Rattle.kernel_model.specs.System.{System}
use Rattle.kernel_model.specs.Newest.{newest, since}
use Rattle.kernel_model.specs.Mapping.{live, said_maps, maps, owner, mapped, unmaps}
use Rattle.kernel_model.specs.State.{state}
use Rattle.kernel_model.specs.Contents.{byte}
use Rattle.kernel_model.specs.Pages.{pages_of_size, placed, free, entered, left, touched_since, written}
use Rattle.kernel_model.specs.Groups.{volatile, standing, first}
use Rattle.kernel_model.specs.Deadlines.{deadlines, changed}
use Rattle.kernel_model.specs.Choice.{pick, forced}
use Rattle.kernel_model.specs.Scan.{scan, stamp_lt, first_active, first_inactive}
use Rattle.kernel_model.specs.Counted.{counts}
use Rattle.kernel_model.specs.Bands.{wish, active, limits, placing, band, ticks, due, counts_for_ageing}
use Rattle.kernel_model.specs.Victims.{victim}
use Rattle.kernel_model.specs.Answers.{answer, refusal, needed, short_of}

-- what one thread was answered
abbrev pub entry : ℕ → Call → Reply → Entry
entry n c r = record { who = n; call = c; reply = r }

-- the replies that the definitions give, in order
abbrev pub replies_from : System → List Entry → List Entry → List Reply
replies_from boot past [] = []
replies_from boot past (e ∷ rest) = answer boot past e.who e.call ∷ replies_from boot (e ∷ past) rest

abbrev pub replies_of : List Entry → List Reply
replies_of [] = []
replies_of (e ∷ rest) = e.reply ∷ replies_of rest

abbrev pub boot_3 : System
boot_3 = record { params = record { frames = 8; target = 8; inactive = 3; store = 4; critical = 0 }; tasks = (record { band = 5; active = record { pages = 65536; fatal = false }; inactive = record { pages = 65536; fatal = false }; internal = false; delay = 3; ageing = 1 }) ∷ []; objects = (record { tasks = 0 ∷ []; pages = 1 }) ∷ []; sides = Task 0 ∷ Kernel ∷ [] }

abbrev pub row_3 : List Entry
row_3 =
    entry 0 (Map 0) (Mapped)
    ∷ entry 0 (Read 0 0 2) (Bytes (0 ∷ 0 ∷ []))
    ∷ entry 1 (Scan) (Moved Deactivated (record { obj = 0; page = 0 }))
    ∷ entry 1 (Scan) (Moved Freed (record { obj = 0; page = 0 }))
    ∷ entry 1 (Scan) (Enough)
    ∷ []

holds_3 : replies_from boot_3 [] row_3 ≡ replies_of row_3
unfolding newest since live said_maps maps owner mapped unmaps state byte placed free entered left touched_since written volatile standing first deadlines changed pick forced scan stamp_lt first_active first_inactive counts wish active limits placing band ticks due counts_for_ageing victim answer refusal needed short_of pages_of_size
holds_3 = refl

abbrev pub boot_6 : System
boot_6 = record { params = record { frames = 8; target = 8; inactive = 3; store = 4; critical = 0 }; tasks = (record { band = 5; active = record { pages = 65536; fatal = false }; inactive = record { pages = 65536; fatal = false }; internal = false; delay = 3; ageing = 1 }) ∷ []; objects = (record { tasks = 0 ∷ []; pages = 1 }) ∷ []; sides = Task 0 ∷ Kernel ∷ [] }

abbrev pub row_6 : List Entry
row_6 =
    entry 0 (Map 0) (Mapped)
    ∷ entry 0 (Write 0 0 (97 ∷ 98 ∷ 99 ∷ [])) (Wrote)
    ∷ entry 0 (SetState 0 1) (Old s_nonvolatile)
    ∷ entry 1 (Forced) (Purged 0)
    ∷ entry 0 (SetState 0 0) (Old s_empty)
    ∷ entry 0 (Read 0 0 3) (Bytes (0 ∷ 0 ∷ 0 ∷ []))
    ∷ []

holds_6 : replies_from boot_6 [] row_6 ≡ replies_of row_6
unfolding newest since live said_maps maps owner mapped unmaps state byte placed free entered left touched_since written volatile standing first deadlines changed pick forced scan stamp_lt first_active first_inactive counts wish active limits placing band ticks due counts_for_ageing victim answer refusal needed short_of pages_of_size
holds_6 = refl

abbrev pub boot_8 : System
boot_8 = record { params = record { frames = 8; target = 8; inactive = 3; store = 4; critical = 0 }; tasks = (record { band = 5; active = record { pages = 65536; fatal = false }; inactive = record { pages = 65536; fatal = false }; internal = false; delay = 3; ageing = 1 }) ∷ []; objects = (record { tasks = 0 ∷ []; pages = 1 }) ∷ []; sides = Task 0 ∷ Kernel ∷ [] }

abbrev pub row_8 : List Entry
row_8 =
    entry 0 (Map 0) (Mapped)
    ∷ entry 0 (SetState 0 2) (Old s_nonvolatile)
    ∷ entry 0 (SetState 0 2) (Old s_empty)
    ∷ entry 0 (SetState 0 1) (Old s_empty)
    ∷ entry 0 (GetState 0) (Is s_empty)
    ∷ entry 1 (Purgeables) (Tokens (record { obsolete = record { tokens = 0; ripe = 0; next = 0; last = 0 }; lifo = record { tokens = 0; ripe = 0; next = 0; last = 0 }; fifo = record { tokens = 0; ripe = 0; next = 0; last = 0 } }))
    ∷ entry 0 (Write 0 0 (97 ∷ [])) (Refused Emptied)
    ∷ entry 0 (Read 0 0 1) (Bytes (0 ∷ []))
    ∷ entry 0 (SetState 0 0) (Old s_empty)
    ∷ []

holds_8 : replies_from boot_8 [] row_8 ≡ replies_of row_8
unfolding newest since live said_maps maps owner mapped unmaps state byte placed free entered left touched_since written volatile standing first deadlines changed pick forced scan stamp_lt first_active first_inactive counts wish active limits placing band ticks due counts_for_ageing victim answer refusal needed short_of pages_of_size
holds_8 = refl

abbrev pub boot_9 : System
boot_9 = record { params = record { frames = 8; target = 8; inactive = 3; store = 4; critical = 0 }; tasks = (record { band = 5; active = record { pages = 65536; fatal = false }; inactive = record { pages = 65536; fatal = false }; internal = false; delay = 3; ageing = 1 }) ∷ []; objects = (record { tasks = 0 ∷ []; pages = 1 }) ∷ []; sides = Task 0 ∷ Kernel ∷ [] }

abbrev pub row_9 : List Entry
row_9 =
    entry 0 (Map 0) (Mapped)
    ∷ entry 0 (SetState 0 3) (Refused Invalid)
    ∷ entry 0 (SetState 0 4096) (Refused Invalid)
    ∷ entry 0 (SetState 0 1808) (Old s_nonvolatile)
    ∷ entry 0 (SetState 0 0) (Old s_nonvolatile)
    ∷ []

holds_9 : replies_from boot_9 [] row_9 ≡ replies_of row_9
unfolding newest since live said_maps maps owner mapped unmaps state byte placed free entered left touched_since written volatile standing first deadlines changed pick forced scan stamp_lt first_active first_inactive counts wish active limits placing band ticks due counts_for_ageing victim answer refusal needed short_of pages_of_size
holds_9 = refl

abbrev pub boot_10b : System
boot_10b = record { params = record { frames = 8; target = 8; inactive = 3; store = 4; critical = 0 }; tasks = (record { band = 5; active = record { pages = 65536; fatal = false }; inactive = record { pages = 65536; fatal = false }; internal = false; delay = 3; ageing = 1 }) ∷ []; objects = (record { tasks = 0 ∷ []; pages = 3 }) ∷ (record { tasks = 0 ∷ []; pages = 1 }) ∷ []; sides = Task 0 ∷ Kernel ∷ [] }

abbrev pub row_10b : List Entry
row_10b =
    entry 0 (Map 0) (Mapped)
    ∷ entry 0 (Read 0 0 1) (Bytes (0 ∷ []))
    ∷ entry 0 (Read 0 4096 1) (Bytes (0 ∷ []))
    ∷ entry 0 (Read 0 8192 1) (Bytes (0 ∷ []))
    ∷ entry 0 (Map 1) (Mapped)
    ∷ entry 1 (Scan) (Moved Deactivated (record { obj = 0; page = 0 }))
    ∷ entry 1 (Scan) (Moved Deactivated (record { obj = 0; page = 1 }))
    ∷ entry 1 (Scan) (Moved Deactivated (record { obj = 0; page = 2 }))
    ∷ entry 1 (Scan) (Moved Freed (record { obj = 0; page = 0 }))
    ∷ entry 0 (SetState 1 1) (Old s_nonvolatile)
    ∷ entry 1 (Purgeables) (Tokens (record { obsolete = record { tokens = 0; ripe = 0; next = 0; last = 0 }; lifo = record { tokens = 0; ripe = 0; next = 0; last = 0 }; fifo = record { tokens = 1; ripe = 0; next = 2; last = 2 } }))
    ∷ entry 1 (PurgeOne) (Nothing)
    ∷ entry 1 (Scan) (Moved Freed (record { obj = 0; page = 1 }))
    ∷ entry 1 (PurgeOne) (Nothing)
    ∷ entry 1 (Scan) (Moved Freed (record { obj = 0; page = 2 }))
    ∷ entry 1 (PurgeOne) (Purged 1)
    ∷ []

holds_10b : replies_from boot_10b [] row_10b ≡ replies_of row_10b
unfolding newest since live said_maps maps owner mapped unmaps state byte placed free entered left touched_since written volatile standing first deadlines changed pick forced scan stamp_lt first_active first_inactive counts wish active limits placing band ticks due counts_for_ageing victim answer refusal needed short_of pages_of_size
holds_10b = refl

abbrev pub boot_11 : System
boot_11 = record { params = record { frames = 8; target = 8; inactive = 3; store = 4; critical = 0 }; tasks = (record { band = 5; active = record { pages = 65536; fatal = false }; inactive = record { pages = 65536; fatal = false }; internal = false; delay = 3; ageing = 1 }) ∷ []; objects = (record { tasks = 0 ∷ []; pages = 3 }) ∷ (record { tasks = 0 ∷ []; pages = 1 }) ∷ (record { tasks = 0 ∷ []; pages = 1 }) ∷ (record { tasks = 0 ∷ []; pages = 1 }) ∷ []; sides = Task 0 ∷ Kernel ∷ [] }

abbrev pub row_11 : List Entry
row_11 =
    entry 0 (Map 0) (Mapped)
    ∷ entry 0 (Read 0 0 1) (Bytes (0 ∷ []))
    ∷ entry 0 (Read 0 4096 1) (Bytes (0 ∷ []))
    ∷ entry 0 (Read 0 8192 1) (Bytes (0 ∷ []))
    ∷ entry 0 (Map 1) (Mapped)
    ∷ entry 0 (Map 2) (Mapped)
    ∷ entry 0 (Map 3) (Mapped)
    ∷ entry 0 (SetState 1 577) (Old s_nonvolatile)
    ∷ entry 1 (Scan) (Moved Deactivated (record { obj = 0; page = 0 }))
    ∷ entry 1 (Scan) (Moved Deactivated (record { obj = 0; page = 1 }))
    ∷ entry 0 (SetState 2 577) (Old s_nonvolatile)
    ∷ entry 1 (Scan) (Moved Deactivated (record { obj = 0; page = 2 }))
    ∷ entry 0 (SetState 3 1) (Old s_nonvolatile)
    ∷ entry 1 (PurgeOne) (Purged 3)
    ∷ entry 1 (Purgeables) (Tokens (record { obsolete = record { tokens = 0; ripe = 0; next = 0; last = 0 }; lifo = record { tokens = 2; ripe = 0; next = 2; last = 3 }; fifo = record { tokens = 0; ripe = 0; next = 0; last = 0 } }))
    ∷ entry 1 (PurgeOne) (Nothing)
    ∷ entry 1 (Scan) (Moved Freed (record { obj = 0; page = 0 }))
    ∷ entry 1 (Scan) (Moved Freed (record { obj = 0; page = 1 }))
    ∷ entry 1 (PurgeOne) (Purged 2)
    ∷ entry 1 (Purgeables) (Tokens (record { obsolete = record { tokens = 0; ripe = 0; next = 0; last = 0 }; lifo = record { tokens = 1; ripe = 0; next = 1; last = 1 }; fifo = record { tokens = 0; ripe = 0; next = 0; last = 0 } }))
    ∷ []

holds_11 : replies_from boot_11 [] row_11 ≡ replies_of row_11
unfolding newest since live said_maps maps owner mapped unmaps state byte placed free entered left touched_since written volatile standing first deadlines changed pick forced scan stamp_lt first_active first_inactive counts wish active limits placing band ticks due counts_for_ageing victim answer refusal needed short_of pages_of_size
holds_11 = refl

abbrev pub boot_12 : System
boot_12 = record { params = record { frames = 8; target = 8; inactive = 3; store = 4; critical = 0 }; tasks = (record { band = 5; active = record { pages = 65536; fatal = false }; inactive = record { pages = 65536; fatal = false }; internal = false; delay = 3; ageing = 1 }) ∷ []; objects = (record { tasks = 0 ∷ []; pages = 3 }) ∷ (record { tasks = 0 ∷ []; pages = 1 }) ∷ (record { tasks = 0 ∷ []; pages = 1 }) ∷ []; sides = Task 0 ∷ Kernel ∷ [] }

abbrev pub row_12 : List Entry
row_12 =
    entry 0 (Map 0) (Mapped)
    ∷ entry 0 (Read 0 0 1) (Bytes (0 ∷ []))
    ∷ entry 0 (Read 0 4096 1) (Bytes (0 ∷ []))
    ∷ entry 0 (Read 0 8192 1) (Bytes (0 ∷ []))
    ∷ entry 0 (Map 1) (Mapped)
    ∷ entry 0 (Map 2) (Mapped)
    ∷ entry 1 (Scan) (Moved Deactivated (record { obj = 0; page = 0 }))
    ∷ entry 0 (SetState 1 1) (Old s_nonvolatile)
    ∷ entry 1 (Scan) (Moved Deactivated (record { obj = 0; page = 1 }))
    ∷ entry 1 (Scan) (Moved Deactivated (record { obj = 0; page = 2 }))
    ∷ entry 0 (SetState 2 1) (Old s_nonvolatile)
    ∷ entry 0 (SetState 1 0) (Old s_volatile)
    ∷ entry 1 (Purgeables) (Tokens (record { obsolete = record { tokens = 0; ripe = 0; next = 0; last = 0 }; lifo = record { tokens = 0; ripe = 0; next = 0; last = 0 }; fifo = record { tokens = 1; ripe = 0; next = 1; last = 1 } }))
    ∷ entry 1 (PurgeOne) (Nothing)
    ∷ entry 1 (Scan) (Moved Freed (record { obj = 0; page = 0 }))
    ∷ entry 1 (PurgeOne) (Purged 2)
    ∷ []

holds_12 : replies_from boot_12 [] row_12 ≡ replies_of row_12
unfolding newest since live said_maps maps owner mapped unmaps state byte placed free entered left touched_since written volatile standing first deadlines changed pick forced scan stamp_lt first_active first_inactive counts wish active limits placing band ticks due counts_for_ageing victim answer refusal needed short_of pages_of_size
holds_12 = refl

abbrev pub boot_13 : System
boot_13 = record { params = record { frames = 8; target = 8; inactive = 3; store = 4; critical = 0 }; tasks = (record { band = 5; active = record { pages = 65536; fatal = false }; inactive = record { pages = 65536; fatal = false }; internal = false; delay = 3; ageing = 1 }) ∷ []; objects = (record { tasks = 0 ∷ []; pages = 3 }) ∷ (record { tasks = 0 ∷ []; pages = 1 }) ∷ []; sides = Task 0 ∷ Kernel ∷ [] }

abbrev pub row_13 : List Entry
row_13 =
    entry 0 (Map 0) (Mapped)
    ∷ entry 0 (Read 0 0 1) (Bytes (0 ∷ []))
    ∷ entry 0 (Read 0 4096 1) (Bytes (0 ∷ []))
    ∷ entry 0 (Map 1) (Mapped)
    ∷ entry 0 (SetState 1 1) (Old s_nonvolatile)
    ∷ entry 1 (Scan) (Moved Deactivated (record { obj = 0; page = 0 }))
    ∷ entry 0 (SetState 1 65) (Old s_volatile)
    ∷ entry 1 (Purgeables) (Tokens (record { obsolete = record { tokens = 0; ripe = 0; next = 0; last = 0 }; lifo = record { tokens = 1; ripe = 0; next = 1; last = 1 }; fifo = record { tokens = 0; ripe = 0; next = 0; last = 0 } }))
    ∷ entry 1 (Scan) (Moved Deactivated (record { obj = 0; page = 1 }))
    ∷ entry 0 (SetState 1 577) (Old s_volatile)
    ∷ entry 1 (Purgeables) (Tokens (record { obsolete = record { tokens = 0; ripe = 0; next = 0; last = 0 }; lifo = record { tokens = 1; ripe = 0; next = 1; last = 1 }; fifo = record { tokens = 0; ripe = 0; next = 0; last = 0 } }))
    ∷ entry 0 (SetState 1 33) (Old s_volatile)
    ∷ entry 1 (Purgeables) (Tokens (record { obsolete = record { tokens = 1; ripe = 1; next = 0; last = 0 }; lifo = record { tokens = 0; ripe = 0; next = 0; last = 0 }; fifo = record { tokens = 0; ripe = 0; next = 0; last = 0 } }))
    ∷ entry 1 (PurgeOne) (Purged 1)
    ∷ []

holds_13 : replies_from boot_13 [] row_13 ≡ replies_of row_13
unfolding newest since live said_maps maps owner mapped unmaps state byte placed free entered left touched_since written volatile standing first deadlines changed pick forced scan stamp_lt first_active first_inactive counts wish active limits placing band ticks due counts_for_ageing victim answer refusal needed short_of pages_of_size
holds_13 = refl

abbrev pub boot_14 : System
boot_14 = record { params = record { frames = 2; target = 8; inactive = 3; store = 4; critical = 2 }; tasks = (record { band = 0; active = record { pages = 65536; fatal = false }; inactive = record { pages = 65536; fatal = false }; internal = true; delay = 3; ageing = 1 }) ∷ (record { band = 3; active = record { pages = 65536; fatal = false }; inactive = record { pages = 65536; fatal = false }; internal = false; delay = 3; ageing = 1 }) ∷ (record { band = 3; active = record { pages = 65536; fatal = false }; inactive = record { pages = 65536; fatal = false }; internal = false; delay = 3; ageing = 1 }) ∷ []; objects = (record { tasks = 1 ∷ []; pages = 1 }) ∷ []; sides = Task 1 ∷ Kernel ∷ [] }

abbrev pub row_14 : List Entry
row_14 =
    entry 1 (Jetsam) (Quiet)
    ∷ entry 0 (Map 0) (Mapped)
    ∷ entry 0 (Read 0 0 1) (Bytes (0 ∷ []))
    ∷ entry 1 (SetBand 1 3) (Banded)
    ∷ entry 1 (Jetsam) (Killed 2 Pressure)
    ∷ entry 1 (Jetsam) (Killed 1 Pressure)
    ∷ entry 0 (GetState 0) (Refused Dead)
    ∷ entry 1 (SetBand 1 4) (Refused Dead)
    ∷ entry 1 (Jetsam) (Quiet)
    ∷ []

holds_14 : replies_from boot_14 [] row_14 ≡ replies_of row_14
unfolding newest since live said_maps maps owner mapped unmaps state byte placed free entered left touched_since written volatile standing first deadlines changed pick forced scan stamp_lt first_active first_inactive counts wish active limits placing band ticks due counts_for_ageing victim answer refusal needed short_of pages_of_size
holds_14 = refl

abbrev pub boot_15a : System
boot_15a = record { params = record { frames = 8; target = 8; inactive = 3; store = 4; critical = 9 }; tasks = (record { band = 0; active = record { pages = 65536; fatal = false }; inactive = record { pages = 65536; fatal = false }; internal = false; delay = 3; ageing = 1 }) ∷ (record { band = 10; active = record { pages = 65536; fatal = false }; inactive = record { pages = 1; fatal = false }; internal = false; delay = 3; ageing = 1 }) ∷ []; objects = (record { tasks = 1 ∷ []; pages = 2 }) ∷ []; sides = Task 1 ∷ Kernel ∷ [] }

abbrev pub row_15a : List Entry
row_15a =
    entry 0 (Map 0) (Mapped)
    ∷ entry 0 (Read 0 0 1) (Bytes (0 ∷ []))
    ∷ entry 0 (Read 0 4096 1) (Bytes (0 ∷ []))
    ∷ entry 1 (Jetsam) (Killed 1 HighWater)
    ∷ entry 1 (Jetsam) (Killed 0 Pressure)
    ∷ entry 1 (Jetsam) (NoVictim)
    ∷ []

holds_15a : replies_from boot_15a [] row_15a ≡ replies_of row_15a
unfolding newest since live said_maps maps owner mapped unmaps state byte placed free entered left touched_since written volatile standing first deadlines changed pick forced scan stamp_lt first_active first_inactive counts wish active limits placing band ticks due counts_for_ageing victim answer refusal needed short_of pages_of_size
holds_15a = refl

abbrev pub boot_15b : System
boot_15b = record { params = record { frames = 8; target = 8; inactive = 3; store = 4; critical = 0 }; tasks = (record { band = 0; active = record { pages = 65536; fatal = false }; inactive = record { pages = 65536; fatal = false }; internal = false; delay = 3; ageing = 1 }) ∷ (record { band = 10; active = record { pages = 65536; fatal = false }; inactive = record { pages = 1; fatal = false }; internal = false; delay = 3; ageing = 1 }) ∷ []; objects = (record { tasks = 1 ∷ []; pages = 2 }) ∷ []; sides = Task 1 ∷ Kernel ∷ [] }

abbrev pub row_15b : List Entry
row_15b =
    entry 0 (Map 0) (Mapped)
    ∷ entry 0 (Read 0 0 1) (Bytes (0 ∷ []))
    ∷ entry 0 (Read 0 4096 1) (Bytes (0 ∷ []))
    ∷ entry 1 (Jetsam) (Quiet)
    ∷ entry 1 (SetLimits 1 (record { pages = 65536; fatal = false }) (record { pages = 1; fatal = true })) (Limited)
    ∷ entry 0 (Active true) (Was false)
    ∷ entry 1 (Jetsam) (Quiet)
    ∷ entry 0 (Active false) (Was true)
    ∷ entry 1 (Jetsam) (Killed 1 by_limit)
    ∷ []

holds_15b : replies_from boot_15b [] row_15b ≡ replies_of row_15b
unfolding newest since live said_maps maps owner mapped unmaps state byte placed free entered left touched_since written volatile standing first deadlines changed pick forced scan stamp_lt first_active first_inactive counts wish active limits placing band ticks due counts_for_ageing victim answer refusal needed short_of pages_of_size
holds_15b = refl

abbrev pub boot_16 : System
boot_16 = record { params = record { frames = 8; target = 8; inactive = 3; store = 4; critical = 0 }; tasks = (record { band = 0; active = record { pages = 65536; fatal = false }; inactive = record { pages = 65536; fatal = false }; internal = false; delay = 3; ageing = 1 }) ∷ []; objects = []; sides = Task 0 ∷ Kernel ∷ [] }

abbrev pub row_16 : List Entry
row_16 =
    entry 1 (Tick) (Aged ([]))
    ∷ entry 1 (Tick) (Aged ([]))
    ∷ entry 0 (Active true) (Was false)
    ∷ entry 0 (Active false) (Was true)
    ∷ entry 1 (Tick) (Aged ([]))
    ∷ entry 1 (Tick) (Aged ([]))
    ∷ entry 1 (Tick) (Aged (0 ∷ []))
    ∷ entry 1 (Tick) (Aged ([]))
    ∷ []

holds_16 : replies_from boot_16 [] row_16 ≡ replies_of row_16
unfolding newest since live said_maps maps owner mapped unmaps state byte placed free entered left touched_since written volatile standing first deadlines changed pick forced scan stamp_lt first_active first_inactive counts wish active limits placing band ticks due counts_for_ageing victim answer refusal needed short_of pages_of_size
holds_16 = refl

abbrev pub boot_20 : System
boot_20 = record { params = record { frames = 8; target = 8; inactive = 1; store = 1; critical = 0 }; tasks = (record { band = 5; active = record { pages = 65536; fatal = false }; inactive = record { pages = 65536; fatal = false }; internal = false; delay = 3; ageing = 1 }) ∷ []; objects = (record { tasks = 0 ∷ []; pages = 2 }) ∷ []; sides = Task 0 ∷ Kernel ∷ [] }

abbrev pub row_20 : List Entry
row_20 =
    entry 0 (Map 0) (Mapped)
    ∷ entry 0 (Write 0 0 (97 ∷ [])) (Wrote)
    ∷ entry 0 (Write 0 4096 (98 ∷ [])) (Wrote)
    ∷ entry 1 (Scan) (Moved Deactivated (record { obj = 0; page = 0 }))
    ∷ entry 1 (Scan) (Moved Compressed (record { obj = 0; page = 0 }))
    ∷ entry 1 (Scan) (Moved Deactivated (record { obj = 0; page = 1 }))
    ∷ entry 1 (Scan) (Moved Requeued (record { obj = 0; page = 1 }))
    ∷ entry 0 (Ledger) (Pages (record { res_non = 1; res_vol = 0; com_non = 1; com_vol = 0; footprint = 2 }))
    ∷ entry 0 (Read 0 0 1) (Bytes (97 ∷ []))
    ∷ entry 1 (Scan) (Moved Deactivated (record { obj = 0; page = 1 }))
    ∷ entry 0 (Read 0 4096 1) (Bytes (98 ∷ []))
    ∷ entry 1 (Scan) (Moved Reactivated (record { obj = 0; page = 1 }))
    ∷ entry 1 (Info) (Frames (record { free = 6; active = 2; inactive = 0; stored = 0; entered = 3; left = 3 }))
    ∷ []

holds_20 : replies_from boot_20 [] row_20 ≡ replies_of row_20
unfolding newest since live said_maps maps owner mapped unmaps state byte placed free entered left touched_since written volatile standing first deadlines changed pick forced scan stamp_lt first_active first_inactive counts wish active limits placing band ticks due counts_for_ageing victim answer refusal needed short_of pages_of_size
holds_20 = refl

abbrev pub boot_33 : System
boot_33 = record { params = record { frames = 8; target = 8; inactive = 3; store = 4; critical = 9 }; tasks = (record { band = 0; active = record { pages = 65536; fatal = false }; inactive = record { pages = 65536; fatal = false }; internal = false; delay = 3; ageing = 1 }) ∷ (record { band = 10; active = record { pages = 65536; fatal = false }; inactive = record { pages = 0; fatal = false }; internal = false; delay = 3; ageing = 1 }) ∷ []; objects = (record { tasks = 0 ∷ 1 ∷ []; pages = 1 }) ∷ []; sides = Task 0 ∷ Task 1 ∷ Kernel ∷ [] }

abbrev pub row_33 : List Entry
row_33 =
    entry 0 (Map 0) (Mapped)
    ∷ entry 1 (Attach 0) (Attached)
    ∷ entry 1 (Read 0 0 1) (Bytes (0 ∷ []))
    ∷ entry 2 (Jetsam) (Killed 0 Pressure)
    ∷ entry 1 (Ledger) (Pages (record { res_non = 1; res_vol = 0; com_non = 0; com_vol = 0; footprint = 1 }))
    ∷ entry 2 (Jetsam) (Killed 1 HighWater)
    ∷ entry 2 (Info) (Frames (record { free = 8; active = 0; inactive = 0; stored = 0; entered = 0; left = 0 }))
    ∷ entry 2 (Jetsam) (NoVictim)
    ∷ []

holds_33 : replies_from boot_33 [] row_33 ≡ replies_of row_33
unfolding newest since live said_maps maps owner mapped unmaps state byte placed free entered left touched_since written volatile standing first deadlines changed pick forced scan stamp_lt first_active first_inactive counts wish active limits placing band ticks due counts_for_ageing victim answer refusal needed short_of pages_of_size
holds_33 = refl

abbrev pub boot_34 : System
boot_34 = record { params = record { frames = 8; target = 8; inactive = 3; store = 4; critical = 9 }; tasks = (record { band = 0; active = record { pages = 65536; fatal = false }; inactive = record { pages = 65536; fatal = false }; internal = true; delay = 1; ageing = 2 }) ∷ (record { band = 0; active = record { pages = 65536; fatal = false }; inactive = record { pages = 65536; fatal = false }; internal = false; delay = 1; ageing = 1 }) ∷ (record { band = 2; active = record { pages = 65536; fatal = false }; inactive = record { pages = 65536; fatal = false }; internal = false; delay = 1; ageing = 1 }) ∷ []; objects = []; sides = Kernel ∷ [] }

abbrev pub row_34 : List Entry
row_34 =
    entry 0 (Tick) (Aged (1 ∷ 0 ∷ []))
    ∷ entry 0 (Tick) (Aged ([]))
    ∷ entry 0 (Jetsam) (Killed 1 Pressure)
    ∷ entry 0 (Jetsam) (Killed 2 Pressure)
    ∷ entry 0 (Jetsam) (NoVictim)
    ∷ []

holds_34 : replies_from boot_34 [] row_34 ≡ replies_of row_34
unfolding newest since live said_maps maps owner mapped unmaps state byte placed free entered left touched_since written volatile standing first deadlines changed pick forced scan stamp_lt first_active first_inactive counts wish active limits placing band ticks due counts_for_ageing victim answer refusal needed short_of pages_of_size
holds_34 = refl
