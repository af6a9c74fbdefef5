-- Two worked runs of the serial schedule: the script, the frame that is fed, and the texts of the transcripts, line by line.
use Rattle.std.specs.Prelude.{ℕ, List, [], ◌∷◌, ◌++◌, codes}
use Rattle.lw_script.specs.declared.parts.Call.TheVariants.{FeedAll}
use Rattle.lw_script.specs.declared.parts.Profile.TheVariants.{Default}
use Rattle.lw_script.specs.declared.parts.Script.{Script}

-- 10.0.0.1 in 255.255.255.0 with the gateway 10.0.0.254, and one call, which feeds all
abbrev pub serial_script : Script
serial_script =
    record {
      net = record {
        ip = record { 0 = 0x0a000001 };
        mask = record { 0 = 0xffffff00 };
        gateway = record { 0 = 0x0a0000fe };
        mac = record { 0 = 2 ∷ 0 ∷ 0 ∷ 0 ∷ 0 ∷ 1 ∷ [] };
      };
      profile = Default;
      commands = FeedAll ∷ [];
    }

-- its text
abbrev pub script_text : List ℕ
script_text = codes "lwip 1\n" ++ codes "net 10.0.0.1 255.255.255.0 10.0.0.254 020000000001\n" ++ codes "limits default\n"

-- a frame: 10.0.0.2 asks all for the hardware address of 10.0.0.1 (RFC 826)
abbrev pub request : List ℕ
request =
    255 ∷ 255 ∷ 255 ∷ 255 ∷ 255 ∷ 255 ∷ 2 ∷ 0 ∷ 0 ∷ 0 ∷ 0 ∷ 2 ∷ 8 ∷ 6 ∷ 0 ∷ 1 ∷ 8 ∷ 0 ∷ 6 ∷ 4 ∷ 0 ∷
    1 ∷ 2 ∷ 0 ∷ 0 ∷ 0 ∷ 0 ∷ 2 ∷ 10 ∷ 0 ∷ 0 ∷ 2 ∷ 0 ∷ 0 ∷ 0 ∷ 0 ∷ 0 ∷ 0 ∷ 10 ∷ 0 ∷ 0 ∷ 1 ∷ []

-- the text of the run that feeds it: it is answered
abbrev pub request_text : List ℕ
request_text =
    codes "lwip 1 serial\n"
    ++ codes "core 1 0 frame ffffffffffff020000000002080600010800060400010200000000020a0000020000000000000a000001 -> ok\n"
    ++ codes "out 020000000002020000000001080600010800060400020200000000010a0000010200000000020a000002\n"
    ++ codes "core 2 0 stop -> ok\n"
    ++ codes "actor 0\n"
    ++ codes "call 1 feed all\n"
    ++ codes "@1\n"
    ++ codes "did fed 1\n"
    ++ codes "call 2 stop\n"
    ++ codes "@2\n"
    ++ codes "did ok\n"
    ++ codes "end core 2 out 1\n"

-- the text of the run that has no frame to feed
abbrev pub no_frames_text : List ℕ
no_frames_text =
    codes "lwip 1 serial\n"
    ++ codes "core 1 0 stop -> ok\n"
    ++ codes "actor 0\n"
    ++ codes "call 1 feed all\n"
    ++ codes "did fed 0\n"
    ++ codes "call 2 stop\n"
    ++ codes "@1\n"
    ++ codes "did ok\n"
    ++ codes "end core 1 out 0\n"
