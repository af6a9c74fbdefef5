-- Worked runs, computed by the definitions.
use Rattle.std.proofs.Common.{List, ℕ, ◌≡◌, [], ◌∷◌, codes, refl, ap, ◌∙◌, lit<, lit≤, rules}
use Rattle.std.specs.Fmt.{digits}
use Rattle.lw_script.specs.Grammar.{SpellsScript}
use Rattle.lw_script.proofs.Scanning.{no_comments, plain}
use Rattle.lw_transcript.specs.Transcript.{transcript_spelling}
use Rattle.lw_rules.specs.Schedule.{serial_transcript}
use Rattle.rows.specs.Worked.{no_frames_text, request, request_text, script_text, serial_script}
use Rattle.rows.proofs.Transcripts.{arp_request, no_frames, transcript_spelling-arp_request, transcript_spelling-no_frames}

abbrev net_line : List ℕ
net_line = codes "net 10.0.0.1 255.255.255.0 10.0.0.254 020000000001"

-- the text of the script
pub serial_script_spelled : SpellsScript script_text serial_script
unfolding digits
serial_script_spelled =
    record {
      lines = codes "lwip 1" ∷ net_line ∷ codes "limits default" ∷ [];
      ended = refl;
      script = record {
        comments = plain (codes "lwip 1") (net_line ∷ codes "limits default" ∷ []) refl (plain net_line (codes "limits default" ∷ []) refl (plain (codes "limits default") [] refl no_comments));
        spelled = refl;
        net = record {
          ip = lit< tt;
          mask = (8, lit≤ tt, refl);
          gateway = lit< tt;
          mac = record { six = refl; octets = λ k d h. search rules };
        };
        commands = refl;
      };
    }

-- a request for the own address is answered
serial_transcript-arp_request : serial_transcript serial_script (request ∷ []) ≡ arp_request
serial_transcript-arp_request = refl

-- its text
pub request_text-spelled : transcript_spelling (serial_transcript serial_script (request ∷ [])) ≡ request_text
request_text-spelled = ap transcript_spelling serial_transcript-arp_request ∙ transcript_spelling-arp_request

-- a capture of no frames
serial_transcript-no_frames : serial_transcript serial_script [] ≡ no_frames
serial_transcript-no_frames = refl

-- its text
pub no_frames_text-spelled : transcript_spelling (serial_transcript serial_script []) ≡ no_frames_text
no_frames_text-spelled = ap transcript_spelling serial_transcript-no_frames ∙ transcript_spelling-no_frames
